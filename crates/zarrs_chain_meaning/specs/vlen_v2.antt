-- What `vlen-utf8` and `vlen-bytes` are made of.
pub mod VlenV2
