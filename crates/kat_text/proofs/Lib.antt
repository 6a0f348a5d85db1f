pub mod HexadecimalLemmas
