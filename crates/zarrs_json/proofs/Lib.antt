pub mod JsonLemmas
pub mod TypeLemmas
pub mod ContainerLemmas
pub mod ShownLemmas
pub mod ReadElements
pub mod HeldElements
pub mod HexListLemmas
pub mod HexElements
