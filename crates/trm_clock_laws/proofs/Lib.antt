-- What an unheld clock does (Does), the laws of each case (Laws), and a proof for each function.
pub mod Does
pub mod Laws
