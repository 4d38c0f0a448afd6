pub mod ReceivedLaws
