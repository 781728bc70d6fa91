-- Laws of what an instruction reads: device numbers.
pub mod Device
