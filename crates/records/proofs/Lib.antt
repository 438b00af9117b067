pub mod GoodLaws
pub mod WordLaws
pub mod CodeLaws
pub mod TimeLaws
pub mod ActLaws
pub mod GoodCode
