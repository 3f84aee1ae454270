pub mod Islands
