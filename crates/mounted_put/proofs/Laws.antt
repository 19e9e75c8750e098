pub mod InStep
pub mod AnyTable
