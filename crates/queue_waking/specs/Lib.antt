pub mod QueueWaking
