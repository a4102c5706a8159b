pub mod CheckDigit
