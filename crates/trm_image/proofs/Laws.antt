-- The laws, a topic per file.
-- `Numbers`: of faults; `Words`: consecutive words; `Parts`: a payload as a slice of the image; `Clean`: a record without a fault; `Walk`:
-- record by record; `Places`: where records begin; `Runs`: runs to the end; `Accepted`: an accepted image; `Load`: words copied into an
-- array; `First`: the first fault; `Bytes`, `Written`, `Described`: an accepted image is its content written out; `Readback`, `Unfaulted`,
-- `Complete`: what is written out is accepted and read back; `Tables`: the computed tables.
pub mod Numbers
pub mod Words
pub mod Parts
pub mod Clean
pub mod Walk
pub mod Places
pub mod Runs
pub mod Accepted
pub mod Load
pub mod First
pub mod Bytes
pub mod Written
pub mod Described
pub mod Readback
pub mod Unfaulted
pub mod Complete
pub mod Tables
