mod Fronts
mod Pieces
mod Places
mod WordTable
mod NameBytes
mod Numbers
mod Members
mod OneAfterOther
mod ShapePieces
mod ReferenceTexts
mod CopiedParts
mod NamedLookups
mod Beginnings
pub mod Decimals
pub mod Converse
pub mod ConverseParts
pub mod TaggedMembers
pub mod MemberTexts
pub mod ValueTokens
pub mod ValueLoops
pub mod ValueSteps
pub mod ValueFound
pub mod ValueWhole
pub mod ValueAgain
pub mod ValueFloatsAgain
pub mod ValueTextsAgain
pub mod ValueEach
pub mod ValueFloatBytes
pub mod ValueLaw
pub mod ValueLawTexts
pub mod ValueLawForms
pub mod ValueLawWhole
