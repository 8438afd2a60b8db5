pub mod ChangedRows
pub mod ComparedAlone
pub mod ComparedMarkup
