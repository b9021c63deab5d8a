pub mod DenseLaws
pub mod LayLaws
pub mod AreasLaws
pub mod LogLaws
pub mod Buses
pub mod StartLaws
pub mod BankLaws
pub mod UndoneLaws
