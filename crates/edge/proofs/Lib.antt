pub mod Pieces
pub mod ReadPieces
