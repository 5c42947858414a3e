mod SlotCounts
mod Written
