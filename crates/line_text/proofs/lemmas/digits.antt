-- Numbers in decimal, digit by digit and in fields.
pub mod Fields
pub mod Numbers
