-- The statements, what each event does to slots, the induction over histories, that the account shows these slots, and two histories computed.
pub mod Law
