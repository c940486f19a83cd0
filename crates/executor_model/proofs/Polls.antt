-- Polls are lawful and asked for, and wakes are handed on: polls_are_lawful, polls_are_asked_for and
-- wakes_are_handed_on.
pub mod Lawful
pub mod Dueness
pub mod Asking
pub mod Waking
pub mod AskingExecutions
pub mod HandingOn
pub mod AskingViews
pub mod AskingAll
