pub mod OutboxSizes
