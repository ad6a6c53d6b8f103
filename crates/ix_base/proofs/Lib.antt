mod FirstByte
mod Lebs
mod Parts
mod SignedLebs
