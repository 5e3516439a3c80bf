pub mod Pieces
pub mod Edit
pub mod PlainRows
pub mod RunJudging
pub mod Sections
pub mod BorderJudge
pub mod Borders
pub mod Cut
