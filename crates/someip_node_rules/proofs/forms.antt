-- What good configurations are made of.
pub mod GoodConfigParts
