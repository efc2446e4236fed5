-- Lemmas of the crate's own.
mod Totals
mod Runs
mod Written
mod TitlesProofs
mod SlotsProofs
