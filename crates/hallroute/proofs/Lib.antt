mod Reading
mod Printing
