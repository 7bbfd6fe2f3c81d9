pub mod Turn
pub mod Device
pub mod Conn
pub mod History
pub mod Laws
pub mod Told
