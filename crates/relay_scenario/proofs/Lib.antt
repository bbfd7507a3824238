mod Cutting
mod Counting
mod Refusing
mod Items
mod Underway
mod Passing
mod Whole
