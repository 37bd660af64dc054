pub mod MarkLemmas
pub mod MarksLaws
pub mod Derived
pub mod PrintedExpressions
pub mod PrintedStatements
pub mod PrintedVariables
pub mod PrintedPrograms
