pub mod ReadPaired
