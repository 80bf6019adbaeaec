pub mod LawsSeek
