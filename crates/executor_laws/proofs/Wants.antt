-- Want of memory is answered to whose request was refused, and requests are numbered: requests_are_numbered.
pub mod Numbering
pub mod Wanting
