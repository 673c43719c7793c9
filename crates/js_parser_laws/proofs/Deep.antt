-- Where a tree would be too deep, the tokens so far begin only deeper trees.
pub mod Tools
pub mod Parts
pub mod Expressions
pub mod Operators
pub mod Statements
pub mod Never
pub mod Names
pub mod Parens
pub mod Covered
pub mod Start
pub mod Shallow
pub mod Lone
pub mod Bottom
pub mod Rooms
pub mod Places
