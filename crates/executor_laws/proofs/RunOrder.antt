-- A run that alone keeps futures takes those of each mark up as they were queued: runs_take_futures_in_order.
pub mod Spans
pub mod SpanActs
pub mod SpanSteps
pub mod SpanLines
pub mod SpanBeside
pub mod SpanWalks
pub mod Ordering
