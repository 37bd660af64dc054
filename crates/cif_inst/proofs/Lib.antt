pub mod EventLaws
pub mod MeasureLaws
pub mod DeclarationLaws
pub mod TypingLaws
pub mod VariableLaws
pub mod EquationLaws
pub mod AlgebraicLaws
mod DefinitionLaws
pub mod RuleLaws
pub mod NetLaws
pub mod OutlineLaws
pub mod SizeLaws
