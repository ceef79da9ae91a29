-- The text of a statement (M16): a mnemonic with its operands.
pub mod Statement
