mod Keys
mod Numbers
