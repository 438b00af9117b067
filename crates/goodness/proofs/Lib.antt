pub mod GoodCode
pub mod StampLaws
