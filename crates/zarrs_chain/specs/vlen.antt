-- The codec `vlen`: elements of any length.
pub mod DefaultVlen
pub mod VlenCalls
