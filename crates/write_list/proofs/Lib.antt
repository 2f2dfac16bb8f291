-- `Faults` says what the tests of a list find, `Tests` that a list which stands them is one of document 01's.
pub mod Faults
pub mod Tests
