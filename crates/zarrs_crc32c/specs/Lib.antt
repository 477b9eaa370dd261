-- The codec `crc32c`.
pub mod Checksum
pub mod Crc32cCodec
pub mod Crc32cMetadata
pub mod Lawful
pub mod Laws
pub mod Quotient
