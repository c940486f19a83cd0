-- An output goes once, stays for the next poll of the handle, and is dropped where nobody can take it: outputs_go_once,
-- outputs_are_kept and outputs_are_settled.
pub mod Outputs
pub mod OutputExecutions
pub mod Keeping
pub mod KeepingViews
pub mod KeepingExecutions
pub mod OutputKept
pub mod Settled
pub mod SettledExecutions
