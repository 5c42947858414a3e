pub mod PairReport
