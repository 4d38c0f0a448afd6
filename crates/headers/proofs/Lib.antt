mod NextLaws
