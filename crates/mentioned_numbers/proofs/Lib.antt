pub mod MentionedLaws
