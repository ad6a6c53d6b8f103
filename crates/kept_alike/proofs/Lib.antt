mod CutAreas
mod CutIndex
mod CutPool
mod CutTable
mod KeptBytes
mod Laws
mod Prefixes
