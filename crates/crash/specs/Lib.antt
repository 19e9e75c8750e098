-- Demand 2: the machine and the statement; the sentences of the demand read back from them.
pub mod Machine
pub mod Demand2
-- the invariant that is closed under power cuts, and the induction over histories
pub mod Sound
pub mod Invariant
-- recovery, delete and read
pub mod Alike
pub mod Tops
pub mod RecoverCount
