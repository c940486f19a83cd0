-- A run that keeps a due future stands and is called: keepers_are_called.
pub mod KeptGrown
pub mod KeptTrace
pub mod KeptWeights
pub mod KeptLeads
pub mod KeptSearch
pub mod KeptRuns
pub mod KeptActs
pub mod KeptCalls
pub mod KeptHere
pub mod KeptTaken
pub mod KeptPut
pub mod KeptEnds
pub mod KeptMachine
pub mod KeptRest
