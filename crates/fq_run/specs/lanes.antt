-- The lanes between the threads of a run.
pub mod Items
pub mod Laying
