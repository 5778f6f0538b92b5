pub mod SetBars
