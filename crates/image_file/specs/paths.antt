-- The files of a host, by their paths: what may be done with each, which are opened, and whether they are still there.
pub mod Names
pub mod Rights
pub mod Standing
pub mod Traces
