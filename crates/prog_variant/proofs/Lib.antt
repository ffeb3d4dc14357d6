pub mod Arguments
pub mod MadeFile
