pub mod TailLaws
pub mod InOrderLaws
