pub mod RuleLaws
pub mod ViewLaws
pub mod ReactLaws
pub mod GoodCode
pub mod AgeLaws
