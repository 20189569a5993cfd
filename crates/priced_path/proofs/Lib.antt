mod Entries
mod Searching
mod Going
mod RowsMade
mod KeptGraph
mod Reading
mod Pricing
