pub mod TraceReader
