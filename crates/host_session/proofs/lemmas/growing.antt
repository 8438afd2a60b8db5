-- STOCK gets longer.
pub mod StockRoom
pub mod GrownStock
pub mod GrowthCounts
