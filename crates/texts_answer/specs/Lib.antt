-- What two texts are answered: the answer, the buffer afterwards, what is promised of them.
pub mod Answer
pub mod FromTexts
pub mod Derived
pub mod Promise
