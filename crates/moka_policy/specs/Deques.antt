pub mod Queues
pub mod Nodes
pub mod Lending
