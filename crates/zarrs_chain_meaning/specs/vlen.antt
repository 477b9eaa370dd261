-- What `vlen` is made of: its offsets, the parts of its values, its configuration, its plain form.
pub mod PlainForm
pub mod VlenLayout
pub mod Vlen
pub mod PlainVlen
pub mod VlenSettings
pub mod VlenSteps
