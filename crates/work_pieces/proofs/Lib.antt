pub mod PutTogether
